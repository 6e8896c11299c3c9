mod Items
mod Rows
