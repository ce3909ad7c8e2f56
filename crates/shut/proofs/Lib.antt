mod Engines
