mod Written
mod Below
mod Named
