pub mod ExprLemmas
pub mod TermLemmas
pub mod SymbolLemmas
pub mod ValueLemmas
