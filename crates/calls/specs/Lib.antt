pub mod Stops
pub mod Marks
pub mod Lengths
pub mod Tests
pub mod Room
