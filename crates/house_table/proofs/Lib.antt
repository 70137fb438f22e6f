pub mod HouseRules
pub mod HouseParts
pub mod HouseBytes
pub mod HouseCovered
