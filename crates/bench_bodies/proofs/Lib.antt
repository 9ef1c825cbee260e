mod TopFacts
