pub mod EditText
