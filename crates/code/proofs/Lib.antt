mod Rows
mod SaysOnce
