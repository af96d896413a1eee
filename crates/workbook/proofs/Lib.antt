mod Checks
mod StateRead
mod Kept
mod LoadedWords
mod Made
mod Demand3
mod ManyPresses
