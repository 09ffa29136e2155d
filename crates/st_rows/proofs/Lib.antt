pub mod Common
pub mod UseLemmas
pub mod Awaited
pub mod Fills
pub mod Older
pub mod Served
pub mod Sooner
pub mod Stages
pub mod Tight
pub mod Telling
pub mod Turns
pub mod Within
pub mod NoteLemmas
pub mod Noted
pub mod Each
pub mod MadeLemmas
pub mod Parts
pub mod LogLaws
pub mod Writers
mod Shifted
mod Places
pub mod Laws
