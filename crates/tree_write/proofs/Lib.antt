mod Cuts
mod Files
mod Inks
mod Works
