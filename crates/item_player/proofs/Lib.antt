pub mod Buses
