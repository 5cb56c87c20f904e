pub mod Sound
pub mod Moves
pub mod Books
pub mod Written
