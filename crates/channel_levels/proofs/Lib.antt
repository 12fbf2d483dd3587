mod Quiet
mod Picks
