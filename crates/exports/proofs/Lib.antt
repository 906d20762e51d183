mod Clauses
mod Comparing
