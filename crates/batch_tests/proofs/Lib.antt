mod ManySites
mod HeldBytes
