mod Vocabulary
