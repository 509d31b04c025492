mod Ends
mod Folds
mod Joining
