pub mod BankLemmas
pub mod Laws
