pub mod SelectedSum
