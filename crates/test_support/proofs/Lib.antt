mod Stored
