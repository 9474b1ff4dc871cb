pub mod Renew
