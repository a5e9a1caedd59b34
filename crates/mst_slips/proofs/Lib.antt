mod Added
mod Fronts
mod OneLetter
mod SlowLans
mod VidsThat
mod NearRegions
