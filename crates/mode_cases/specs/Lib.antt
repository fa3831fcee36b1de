pub mod WideExchange
