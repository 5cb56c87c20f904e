pub mod Items
pub mod ListGrammar
pub mod Lists
pub mod NamedLists
pub mod Names
pub mod Numbers
pub mod Ranges
pub mod Shown
