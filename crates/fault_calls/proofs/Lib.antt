pub mod CheckingLaws
pub mod RepairingLaws
pub mod Sound
pub mod Ends
