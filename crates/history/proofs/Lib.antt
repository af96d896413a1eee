mod Entries
mod Forwards
mod Replays
