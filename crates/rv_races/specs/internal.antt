pub mod LastStores
