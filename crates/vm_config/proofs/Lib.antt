pub mod ValueLemmas
pub mod TextLemmas
pub mod TraceLemmas
pub mod GuestLemmas
pub mod StepLemmas
pub mod GuestKeysLemmas
pub mod KeysLemmas
pub mod VersionLemmas
pub mod PlaceLemmas
mod NewerStepLemmas
pub mod AsVersion3Lemmas
pub mod AsVersion3Roots
pub mod FirstLemmas
mod SettingLemmas
