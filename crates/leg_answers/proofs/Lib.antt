mod StoryLaws
