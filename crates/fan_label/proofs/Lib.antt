mod Fans
mod RayParts
