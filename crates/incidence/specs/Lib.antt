pub mod Incidence
