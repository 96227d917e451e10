-- Lemmas on what the command line means.
pub mod AddressesRead
pub mod NumbersRead
pub mod TextsRead
pub mod CommandsMade
pub mod Stops
mod Defaults
mod Origins
