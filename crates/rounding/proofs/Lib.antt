mod Biased
