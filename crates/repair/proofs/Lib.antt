pub mod LayerLaws
pub mod RepairLaws
