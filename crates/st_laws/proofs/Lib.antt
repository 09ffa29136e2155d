pub mod Common
pub mod EmittedParts
pub mod EmittedDigits
pub mod EmittedFields
pub mod AgreementLemmas
pub mod MadeStatements
pub mod MadeDecks
pub mod Laws
