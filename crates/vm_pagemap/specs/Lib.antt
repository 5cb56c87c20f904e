pub mod PageMap
pub mod Kept
pub mod FramesUnder
pub use Rattle.vm_frames.specs.Frame
pub use Rattle.vm_patches.specs.Patches
pub use Rattle.vm_pages.specs.Pages
