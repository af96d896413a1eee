-- Laws that other crates cite
pub mod RefusalNumbers
pub mod Check
pub mod Rows
pub mod Questions
pub mod Step
pub mod Handlers
pub mod Fetched
pub mod Legal
pub mod Returns
pub mod Numbers
pub mod Lawful
pub mod Run
pub mod History
pub mod Sheet
pub mod Placement
pub mod Standing
pub mod Characters
pub mod Names
pub mod Fields
pub mod Descriptor
pub mod AcceptedLoad
pub mod Pasted
pub mod Scratch
pub mod OnePress
pub mod Walk
pub mod FromSheet
pub mod Replay
-- Examples, which only the checker reads
mod Examples
mod Shapes
mod Tried
