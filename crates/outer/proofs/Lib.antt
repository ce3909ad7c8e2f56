mod Crossings
mod Listings
mod Only
