mod Beginning
mod Ends
mod Finishing
mod Workers
mod Last
