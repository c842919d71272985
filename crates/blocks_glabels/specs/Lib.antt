pub mod Glabels
