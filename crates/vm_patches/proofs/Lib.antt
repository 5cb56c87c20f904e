pub mod Writes
mod Zeros
mod Contents
mod LastBytes
mod Masks
mod Runs
mod Laying
