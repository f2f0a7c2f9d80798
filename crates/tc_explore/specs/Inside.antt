-- What a search has to show: which histories represent others, and when what comes after them is seen.
pub mod Simulation
pub mod Seen
pub mod Played
pub mod Twins
pub mod Locals
