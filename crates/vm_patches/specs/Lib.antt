pub mod Patches
pub mod Runs
pub mod Lines
pub mod Contents
pub mod LastByte
pub use Rattle.vm_frames.specs.Frame
