mod Together
