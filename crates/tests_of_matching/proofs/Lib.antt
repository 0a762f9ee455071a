mod OrderedLaws
