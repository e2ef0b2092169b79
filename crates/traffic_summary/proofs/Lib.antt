mod Ends
mod Counts
