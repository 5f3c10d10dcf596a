mod Cuts
mod Digits
mod Forms
mod Taken
mod Words
