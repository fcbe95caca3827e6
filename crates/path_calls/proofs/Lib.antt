mod Binds
