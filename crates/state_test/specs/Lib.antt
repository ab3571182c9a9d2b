pub mod StateTest
