-- What a table's queues keep to, place by place, and what they say.
pub mod Queues
