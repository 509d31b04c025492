mod Examples
mod Renewals
mod Rows
mod Numbers
mod Reading
