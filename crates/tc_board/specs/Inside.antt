-- What only the way the board uses its table needs: no public clause names a word of these files.
pub mod Seats
pub mod Table
pub mod Steps
