pub mod LineFault
pub mod LineGrammar
pub mod Lines
pub mod SizeGrammar
pub mod Sizes
