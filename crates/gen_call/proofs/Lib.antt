mod Ports
mod Finishing
mod Workers
mod Beginning
