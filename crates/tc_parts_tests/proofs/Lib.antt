-- The lemmas of these tests.
mod Hands
