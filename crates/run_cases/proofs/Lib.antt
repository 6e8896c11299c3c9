mod Mounted
