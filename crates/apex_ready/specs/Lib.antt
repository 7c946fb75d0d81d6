pub mod ReadyOrders
